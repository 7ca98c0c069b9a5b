pub mod Sessions
pub mod AllSessions
pub mod Entries
pub mod Welcomes
