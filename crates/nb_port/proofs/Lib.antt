pub mod Backing
pub mod Moments
pub mod Tears
pub mod Stops
pub mod Ranges
