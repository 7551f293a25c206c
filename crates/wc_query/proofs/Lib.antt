pub mod Cutting
pub mod Successive
