pub use Rattle.wc_core.proofs.Happening
pub mod Continuing
pub mod Widened
pub mod Journals
pub mod ManyTurns
pub mod Answered
pub mod Sets
pub mod Marked
pub mod Taken
pub mod Needed
pub mod Accepted
pub mod Led
pub mod Placed
pub mod Codes
pub mod Known
mod Trailed
mod TrailLaws
mod Gone
mod OnTrail
mod Ran
