pub mod Words
pub mod Lines
pub mod Settings
pub mod Reads
pub mod Laws
