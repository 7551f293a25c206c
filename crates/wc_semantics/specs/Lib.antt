pub mod Tables
pub mod Statements
pub mod Run
pub mod Meaning
pub mod Laws
pub mod Rules
pub mod Requests
pub mod Outcomes
