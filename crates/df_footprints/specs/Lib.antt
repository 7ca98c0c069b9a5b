pub mod Asks
pub mod Footprints
pub mod Laws
pub mod Naming
