pub mod Movements
pub mod Statement
pub mod Laws
