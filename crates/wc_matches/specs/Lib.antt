pub use Rattle.wc_query.specs.declared.query.Query as Query
pub mod Meets
pub mod Joins
pub mod Matches
pub mod First
pub mod Levels
pub mod Found
pub mod Numbers
pub mod Sets
pub mod Texts
pub mod Names
pub mod Laws
pub mod Rows
pub mod Places
pub mod Ways
pub mod Masks
