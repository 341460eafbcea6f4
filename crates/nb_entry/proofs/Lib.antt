pub mod Steps
pub mod Layouts
