pub mod Stops
pub mod FileStops
pub mod Sources
pub mod Entries
pub mod Loads
