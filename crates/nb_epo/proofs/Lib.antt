pub mod Layouts
pub mod Placing
