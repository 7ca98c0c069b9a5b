pub mod Sums
pub mod Logs
pub mod Moves
pub mod Numbers
pub mod Cuts
pub mod Drawing
pub mod Entering
pub mod Merging
pub mod Opens
pub mod Ending
pub mod Showing
pub mod Taking
mod Deals
pub mod Running
