pub mod Ledger
pub mod Searches
pub mod Money
pub mod Legal
pub mod Laws
pub mod Indexes
