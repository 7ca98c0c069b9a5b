pub mod Reading
pub mod Ops
pub mod Readers
pub mod Parts
