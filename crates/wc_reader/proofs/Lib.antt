pub mod Bounds
pub mod DefinitionLaws
pub mod Nesting
pub mod OutlineLaws
pub mod PartLaws
pub mod Places
pub mod Whole
