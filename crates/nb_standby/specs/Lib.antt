pub mod Spelling
pub mod Reading
pub mod Following
pub mod World
pub mod Answering
pub mod Laws
