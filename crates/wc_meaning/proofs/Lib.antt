pub mod Least
pub mod Bare
pub mod Turns
pub mod Around
pub mod Order
pub mod Requests
pub mod Alone
pub mod Steps
pub mod Ran
mod Going
