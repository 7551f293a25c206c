pub mod Quotes
pub mod Script
pub mod Lines
pub mod Options
pub mod Batch
pub mod Ends
pub mod Runs
pub mod Queue
