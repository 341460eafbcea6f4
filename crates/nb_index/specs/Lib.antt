pub mod Puts
pub mod Slots
pub mod Laws
