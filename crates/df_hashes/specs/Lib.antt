pub mod Serves
pub mod Parts
pub mod Looks
pub mod Settles
pub mod Counts
