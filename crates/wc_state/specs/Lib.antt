pub mod Checkpoint
pub mod Context
pub mod Pairs
pub mod Ranges
