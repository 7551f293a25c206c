pub mod Least
pub mod Flat
pub mod Scopes
pub mod Sought
pub mod Signed
pub mod Refusals
pub mod Laws
