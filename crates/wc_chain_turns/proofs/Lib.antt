pub mod Shown
pub mod Kept
pub mod Few
pub mod Turned
pub mod ReadItems
