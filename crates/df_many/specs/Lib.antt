pub mod Rooms
pub mod Lines
