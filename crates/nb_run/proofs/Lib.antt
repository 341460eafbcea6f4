pub mod Frames
pub mod Numerals
pub mod Stocking
pub mod Requests
pub mod Wares
pub mod Grants
pub mod Plays
pub mod Asked
