pub mod Crc
pub mod Texts
pub mod Parts
pub mod Files
pub mod Written
pub mod Seen
pub mod Reading
pub mod Laws
