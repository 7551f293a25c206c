pub use Rattle.wc_value.specs.declared.value.Kind as Kind
pub mod Bounds
pub mod Cuts
pub mod Runs
pub mod Spellings
pub mod Tokens
