pub mod Left
pub mod Calling
