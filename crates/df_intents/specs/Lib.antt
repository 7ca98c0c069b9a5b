pub mod Holders
pub mod Counting
pub mod Trails
pub mod Steps
pub mod Index
pub mod Kept
