pub mod Jumping
pub mod Framing
pub mod Feeding
pub mod Lengths
