mod Cycles
mod Leaping
mod Noting
mod Given
mod Lasts
mod LastResults
pub mod Wrong
pub mod Results
mod Disagreeing
pub mod Unique
