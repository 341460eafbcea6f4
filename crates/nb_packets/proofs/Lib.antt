pub mod Places
pub mod Reading
pub mod Hearing
pub mod Keeping
mod Phases
