pub mod Spelling
pub mod Reading
pub mod Sales
pub mod Tests
pub mod Messages
pub mod Ledger
pub mod Laws
pub mod Head
