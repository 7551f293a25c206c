pub mod Readings
pub mod Keys
pub mod Contexts
pub mod Codes
pub mod Choices
pub mod Atoms
pub mod Series
pub mod PartCodes
pub mod ChangeCodes
pub mod Unique
pub mod Whole
pub mod Some
pub mod Tolds
pub mod Printed
mod Shared
pub mod Remaining
pub mod SnapshotLength
