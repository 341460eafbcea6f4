pub mod Shop
pub mod Table
pub mod Telling
pub mod Keeping
pub mod Sending
pub mod Noting
pub mod Laws
