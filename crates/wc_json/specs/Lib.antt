pub mod Writing
pub mod Reading
pub mod Limits
pub mod Tables
pub mod Answers
pub mod Documents
