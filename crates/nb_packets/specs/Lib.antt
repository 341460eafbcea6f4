pub mod Parcels
pub mod Doing
pub mod Calls
