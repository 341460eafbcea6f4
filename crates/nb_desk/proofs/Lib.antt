pub mod Turning
pub mod Growing
