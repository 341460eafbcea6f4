mod Working
mod Threading
mod Splitting
mod Gathering
mod Joining
mod Telling
pub mod Resting
