pub mod Held
pub mod Given
mod Logged
pub mod Directories
mod Ordered
pub mod Worked
mod OnWork
mod RanWork
pub mod ByNew
