mod PlaceLemmas
mod ShareLemmas
mod TotalLemmas
mod SenderLemmas
pub mod Crosses
pub mod Keeps
