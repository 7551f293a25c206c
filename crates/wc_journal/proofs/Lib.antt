mod Fronts
mod Holding
mod Appending
mod Puts
mod Loading
pub mod Writing
mod Making
mod Adding
pub mod Lengths
pub mod Growing
mod Respelled
mod Rows
