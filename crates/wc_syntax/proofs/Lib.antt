pub mod Bared
pub mod Escapes
pub mod Joined
pub mod ListTexts
pub mod Named
