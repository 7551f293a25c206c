pub use Rattle.wc_runner.proofs as Runner
pub use Rattle.wc_cost.proofs as Costs
pub use Rattle.wc_soundness.proofs as Soundness
pub mod Counts
pub mod Rows
pub mod HeldUp
pub mod CalmTurns
pub mod NoPauses
pub mod Requests
pub mod Agreement
pub mod Directories
pub mod Moments
pub mod EveryProcess
