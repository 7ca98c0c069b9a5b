pub mod Lists
pub mod Puts
pub mod Commute
pub mod LogsAlone
pub mod ShardKept
pub mod CounterLaws
