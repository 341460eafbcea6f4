pub mod Socket
pub mod Waits
pub mod Adapters
pub mod Dials
pub mod Laws
