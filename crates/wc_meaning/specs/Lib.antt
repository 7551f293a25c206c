pub mod Inputs
pub mod Replies
pub mod Settings
pub mod Ran
pub mod Paths
