pub mod Spelling
pub mod Reading
pub mod Stages
pub mod Purchases
pub mod Changes
pub mod Orders
pub mod Laws
pub mod Head
