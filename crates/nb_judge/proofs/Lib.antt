pub mod Layouts
pub mod Once
pub mod Places
