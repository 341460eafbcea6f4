pub mod Layouts
pub mod ReadBodies
