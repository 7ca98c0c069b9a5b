pub mod Courses
pub mod Heard
pub mod Asked
pub mod Turns
pub mod Steps
