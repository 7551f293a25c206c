pub mod Placing
pub mod Links
pub mod Parts
pub mod Recorded
pub mod Same
pub mod Labels
pub mod Found
pub mod Asked
