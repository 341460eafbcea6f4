pub mod Turns
pub mod Lines
pub mod Callers
pub mod Laws
pub mod Worked
