pub mod Run
pub mod Sold
pub mod Steps
pub mod Laws
