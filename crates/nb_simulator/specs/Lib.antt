pub mod Worlds
pub mod Setups
pub mod Laws
