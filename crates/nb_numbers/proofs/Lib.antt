pub mod Finding
pub mod Beside
