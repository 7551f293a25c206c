pub mod Cost
pub mod Left
pub mod Laws
pub mod SmallLaws
pub mod Advances
pub mod Touches
pub mod Turns
