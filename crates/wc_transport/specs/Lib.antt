pub mod Outside
pub mod Form
pub mod Obliging
