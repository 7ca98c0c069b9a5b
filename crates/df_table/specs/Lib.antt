pub mod Fates
pub mod HeldSets
pub mod Joined
pub mod Moved
pub mod Responses
pub mod Tables
