pub mod Slices
pub mod Sealing
