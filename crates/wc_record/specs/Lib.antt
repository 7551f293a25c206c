pub mod Readers
pub mod Fields
pub mod Spelled
pub mod Written
pub mod Reading
pub mod Libraries
pub mod Laws
pub mod Snapshots
