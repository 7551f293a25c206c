mod Others
pub mod Seated
