pub mod Session
pub mod Steps
pub mod Laws
