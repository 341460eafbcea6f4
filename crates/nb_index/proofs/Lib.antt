pub mod Places
pub mod Keys
pub mod Walking
pub mod Holding
