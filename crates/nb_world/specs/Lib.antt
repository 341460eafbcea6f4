pub mod World
pub mod Steps
pub mod Fits
pub mod Laws
pub mod Nodes
pub mod Headline
pub mod Ties
pub mod Worked
