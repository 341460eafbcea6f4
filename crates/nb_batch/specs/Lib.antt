pub mod Answering
pub mod Send
pub mod Shipping
pub mod Fetch
pub mod Batch
pub mod Acknowledged
pub mod Numbers
