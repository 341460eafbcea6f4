pub mod Stopping
pub mod Completing
pub mod Purchases
pub mod Sales
pub mod Stalls
