pub mod Reads
pub mod Received
pub mod Sent
pub mod Laws
