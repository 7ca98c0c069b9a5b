pub mod Spread
pub mod Gathered
pub mod Written
pub mod Pairs
