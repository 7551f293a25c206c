pub use Rattle.wc_turn_laws.specs.CalculationLaws
pub mod Keys
pub mod Sources
pub mod Laws
