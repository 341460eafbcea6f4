pub mod Heads
pub mod Making
pub mod Moving
pub mod Opening
pub mod Stating
pub mod Ships
pub mod Promotions
pub mod Rulings
