pub mod Names
pub mod Keys
pub mod Values
pub mod Refusals
pub mod Seen
pub mod Specs
pub mod Reading
pub mod Examples
