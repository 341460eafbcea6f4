pub mod Spelling
pub mod Reading
pub mod Keys
pub mod Opening
pub mod Sealed
pub mod Laws
