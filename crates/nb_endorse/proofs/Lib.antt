pub mod Sealing
pub mod Layouts
pub mod Optional
pub mod Receipts
pub mod Placing
