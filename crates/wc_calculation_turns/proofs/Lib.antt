pub mod Counted
pub mod Room
pub mod Ready
pub mod FirstTurns
pub mod Jobs
