pub mod State
pub mod Faults
pub mod Looks
pub mod Collected
pub mod Cuts
