pub mod Reading
pub mod Loading
pub mod Frame
pub mod Refusals
pub mod Batches
pub mod Framing
pub mod Journals
pub mod Spelled
