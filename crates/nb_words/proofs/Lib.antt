pub mod Reading
pub mod Listing
pub mod Commands
pub mod Buying
pub mod Selling
pub mod Granting
pub mod Whole
pub mod Once
