pub mod Replies
pub mod Parts
pub mod Marks
pub mod Answered
pub mod States
pub mod Desks
pub mod OneTable
pub mod Runs
