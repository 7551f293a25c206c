mod Counts
mod Examples
mod Kept
mod Least
mod Nothing
mod Read
