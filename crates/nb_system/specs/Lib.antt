pub mod File
pub mod System
