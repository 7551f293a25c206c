pub use Rattle.wc_ends.specs.Runner as Runner
pub use Rattle.wc_ends.specs.Soundness as Soundness
pub use Rattle.wc_ends.specs.Enough
pub mod Drilled
pub mod Submissions
pub mod Runs
pub mod Refusals
pub mod Leaves
pub mod Sound
pub mod Library
pub mod Squares
pub mod PairCost
pub mod Draws
pub mod Texts
pub mod GeneratedRefusals
