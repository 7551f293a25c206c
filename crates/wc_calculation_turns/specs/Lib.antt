pub mod Courses
pub mod Waits
pub mod Steps
