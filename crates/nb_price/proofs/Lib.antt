pub mod Splitting
pub mod Numerals
pub mod Lookups
pub mod Lines
pub mod Reading
pub mod Once
