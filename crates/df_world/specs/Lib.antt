pub mod World
pub mod Events
pub mod TheList
pub mod Sound
pub mod Seen
pub mod Invariant
pub mod Laws
pub mod Example
