pub mod Pieces
pub mod Ports
pub mod Sources
pub mod Statements
pub mod Orders
pub mod Chains
pub mod Judging
pub mod Examples
