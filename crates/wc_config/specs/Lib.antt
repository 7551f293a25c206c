pub mod Keys
pub mod Refusals
pub mod Settings
pub mod Seen
pub mod Reading
