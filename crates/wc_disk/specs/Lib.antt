pub mod Steps
pub mod Volume
pub mod Replay
pub mod Tape
pub mod Noise
pub mod Fails
pub mod Picked
pub mod Images
