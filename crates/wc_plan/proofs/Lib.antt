pub mod Naming
pub mod Valid
pub mod Furthers
pub mod Filed
pub mod Bares
pub mod Means
pub mod Submitted
pub mod Configured
pub mod Once
pub mod Spared
pub mod Planned
pub mod Replied
mod GivenBadly
