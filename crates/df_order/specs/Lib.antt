pub mod Lists
pub mod Puts
pub mod Model
pub mod Histories
pub mod Shards
pub mod Laws
pub mod Counters
