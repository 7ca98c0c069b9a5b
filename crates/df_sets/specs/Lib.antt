pub mod Serves
pub mod Looks
pub mod Combined
pub mod Counted
