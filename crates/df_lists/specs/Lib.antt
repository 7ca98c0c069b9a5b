pub mod Serves
pub mod Ends
pub mod Resized
pub mod Places
