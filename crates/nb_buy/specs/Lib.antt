pub mod Run
pub mod Lines
pub mod Bought
pub mod Steps
pub mod Laws
