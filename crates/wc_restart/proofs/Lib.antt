pub mod Folded
pub mod Outlined
pub mod Examples
pub mod Named
