pub mod Xoring
pub mod Opening
pub mod Fronts
