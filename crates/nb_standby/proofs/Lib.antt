pub mod Layouts
pub mod Fronts
pub mod Steps
pub mod Runs
