pub mod list
pub mod keyed
pub mod boxed
