pub mod Standing
pub mod Replies
pub mod Progress
pub mod Underway
pub mod Between
