pub mod Served
pub mod Headline
pub mod Standby
