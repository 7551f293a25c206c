pub mod Visiting
pub mod Doing
pub mod Asking
pub mod Entries
pub mod Marks
pub mod Widening
pub mod Turns
pub mod Undone
pub mod Unwriting
pub mod Moments
pub mod Leaving
pub mod Drilled
pub mod Viewing
pub mod Shaping
mod Verifying
pub mod Idle
pub mod Exchanged
pub mod Ending
pub mod Broken
pub mod Entered
pub mod Killed
pub mod Happened
pub mod Replied
pub mod OnceStored
pub mod Once
pub mod Answered
pub mod Exits
pub mod Undamaged
pub mod Acknowledging
mod SoundDeeds
mod Told
