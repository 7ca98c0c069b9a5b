pub mod Fits
pub mod Postings
pub mod Ways
pub mod Locals
pub mod Rounds
