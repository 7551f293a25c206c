pub mod World
pub mod Records
pub mod Values
pub mod Blocks
pub mod Levels
pub mod Fits
