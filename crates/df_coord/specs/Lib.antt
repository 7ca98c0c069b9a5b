pub mod Rows
pub mod Asking
pub mod Hearing
pub mod OneHops
