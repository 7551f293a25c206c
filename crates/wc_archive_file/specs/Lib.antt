pub mod Archives
pub mod Reads
pub mod Laws
