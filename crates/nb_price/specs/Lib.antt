pub mod Shelf
pub mod Products
pub mod Fields
pub mod Reads
pub mod Putting
pub mod Laws
