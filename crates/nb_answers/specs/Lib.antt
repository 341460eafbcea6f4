pub mod Ending
pub mod Batch
pub mod Drill
