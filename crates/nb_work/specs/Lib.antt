pub mod Work
pub mod Buying
pub mod Laws
pub mod Selling
