pub mod TurnLaws
pub mod Instead
pub mod View
pub mod Nodes
pub mod OutlineLaws
pub mod RunLaws
pub mod CalculationLaws
