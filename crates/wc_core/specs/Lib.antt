pub mod Ready
pub mod Asks
pub mod Submitted
pub mod Refusals
pub mod Standing
pub mod Order
pub mod Next
