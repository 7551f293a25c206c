pub mod Linking
pub mod Names
pub mod TreeLaws
mod Valued
