pub mod Stock
pub mod Report
pub mod Playing
pub mod Laws
