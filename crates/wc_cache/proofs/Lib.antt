pub use Rattle.wc_turn_laws.proofs.OneList
mod Keyed
mod Parts
mod Valid
mod Lowest
mod LookedAt
