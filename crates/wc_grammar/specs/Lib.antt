pub mod Grammar
pub mod Kinds
pub mod Levels
pub mod Pieces
pub mod Reading
pub mod Rules
