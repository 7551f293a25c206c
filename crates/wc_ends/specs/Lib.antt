pub use Rattle.wc_runner.specs as Runner
pub use Rattle.wc_cost.specs as Costs
pub use Rattle.wc_soundness.specs as Soundness
pub mod Enough
pub mod Laws
