pub mod Listing
pub mod Lawful
pub mod OneReport
pub mod Adding
pub mod Stocking
pub mod Events
