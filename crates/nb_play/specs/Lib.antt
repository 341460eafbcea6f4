pub mod Draws
pub mod Drill
pub mod Feed
pub mod Numbers
