pub mod Bare
pub mod Mentions
pub mod Findings
pub mod First
pub mod Checked
pub mod Printing
pub mod Writable
pub mod Laws
