mod Looking
mod Verdicts
pub mod Playing
mod ValueEnds
mod Stops
mod Addressed
mod Turns
pub mod Opened
mod Chosen
mod Made
mod Commits
mod Packs
mod Accepts
mod Counted
mod Placed
mod Committed
mod Imaged
pub mod Led
pub mod Stepping
pub mod Parts
mod Reached
mod Deciding
mod Links
mod Changes
mod Holding
mod Suiting
