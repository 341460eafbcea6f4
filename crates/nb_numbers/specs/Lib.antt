pub mod Places
pub mod Beside
