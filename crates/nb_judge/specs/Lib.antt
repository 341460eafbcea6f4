pub mod Layout
pub mod Reading
pub mod Ruling
pub mod Laws
