pub mod Shortness
pub mod Taking
pub mod Cutting
