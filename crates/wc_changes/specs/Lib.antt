pub use Rattle.wc_outline.specs.declared.calls.Advanced as Advanced
pub use Rattle.wc_outline.specs.Agreement
pub use Rattle.wc_outline.specs.Keys
pub use Rattle.wc_outline.specs.Places
pub use Rattle.wc_outline.specs.Reads
pub use Rattle.wc_outline.specs.Shown
pub use Rattle.wc_outline.specs.TurnLaws
pub use Rattle.wc_trees.specs.Environments
pub mod Known
pub mod Called
pub mod Advances
