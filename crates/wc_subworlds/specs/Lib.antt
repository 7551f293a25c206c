pub mod Parts
pub mod Asks
pub mod Laws
