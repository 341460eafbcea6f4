pub mod Goods
pub mod Divided
pub mod Parts
pub mod Opening
pub mod Collision
pub mod Laws
