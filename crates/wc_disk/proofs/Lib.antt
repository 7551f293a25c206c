pub mod Outcomes
mod Times
mod Replaying
pub mod Runs
