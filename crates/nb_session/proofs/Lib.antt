pub mod Going
pub mod Cutting
pub mod Marking
pub mod Turning
pub mod Ending
pub mod Completing
