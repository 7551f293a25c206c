pub mod FoundRecords
pub mod Lengths
pub mod Definitions
pub mod Places
pub mod LinkWalks
pub mod LinkedValues
pub mod LinkLabels
