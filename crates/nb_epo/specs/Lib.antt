pub mod Spelling
pub mod Reading
pub mod Tags
pub mod Revealing
pub mod Laws
pub mod Places
