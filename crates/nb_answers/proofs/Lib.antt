pub mod Running
pub mod Completeness
pub mod Tallying
pub mod Drills
