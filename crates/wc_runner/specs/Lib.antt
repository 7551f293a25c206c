pub use Rattle.wc_core.specs as Core
pub use Rattle.wc_core.specs.Next
pub use Rattle.wc_core.specs.Standing
pub use Rattle.wc_core.specs.Refusals as CoreRefusals
pub mod Outside
pub mod Trips
pub mod Laws
pub mod Refusals
pub mod Leaves
pub mod Orders
pub mod Turns
pub mod Asked
pub mod Runs
pub mod Marks
pub mod Codes
pub mod Trails
