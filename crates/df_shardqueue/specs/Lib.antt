pub mod Placed
pub mod Shares
pub mod Told
pub mod Kept
pub mod Passes
pub mod Laws
