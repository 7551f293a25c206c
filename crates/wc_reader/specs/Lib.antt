pub mod Answer
pub mod Depth
pub mod Grammar
pub mod Nesting
pub mod Outlines
pub mod Parts
pub mod Reading
pub mod Pieces
