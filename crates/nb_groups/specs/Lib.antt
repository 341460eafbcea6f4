pub mod Groups
pub mod Spelling
pub mod Reading
pub mod Offers
pub mod Reads
pub mod Quote
pub mod Laws
pub mod Prices
