mod Wholes
mod Members
mod Contents
mod Steps
mod Parsed
mod Asked
mod Rows
pub mod Single
