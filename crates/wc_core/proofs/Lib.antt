pub mod Bare
pub mod Counted
pub mod Refused
pub mod Allowed
pub mod Leading
pub mod Results
pub mod Happening
pub mod Asking
pub mod Asked
pub mod TurnsByKind
pub mod Marking
mod Held
mod Free
mod NextReady
mod Due
mod Chosen
mod Going
mod KillParts
