pub use Rattle.wc_outline.proofs.CalledLabels
pub mod Named
pub mod Counted
