pub mod Link
pub mod Port
pub mod Memory
