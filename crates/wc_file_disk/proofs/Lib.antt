mod Spans
mod Pieces
mod Loops
