pub mod SoundFacts
pub mod Moves
pub mod Events
pub mod Staged
pub mod Invariants
pub mod OneList
pub mod Seen
mod Examples
