pub mod Faults
pub mod Following
pub mod Firsts
pub mod Givers
pub mod Noted
pub mod Laws
