pub use Rattle.wc_ends.proofs.Runner as Runner
pub use Rattle.wc_ends.proofs.Soundness as Soundness
pub use Rattle.wc_ends.proofs.EveryProcess
mod Results
mod Chains
mod UnderWay
mod Turned
mod Keeping
mod Joined
mod Ran
mod Begun
pub mod Folded
pub mod Writable
pub mod KeepingLibrary
pub mod Rows
pub mod Reading
pub mod Drawing
pub mod Given
mod SquaredJobs
mod PairRuns
mod PairCost
mod NewPairs
mod EnoughTurns
pub mod Fitting
