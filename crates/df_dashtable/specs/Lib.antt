pub mod Visible
pub mod Moves
pub mod Tables
pub mod Walks
pub mod Lends
