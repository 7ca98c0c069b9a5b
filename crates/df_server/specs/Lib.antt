pub mod Promise
pub mod Alone
pub mod Serve
