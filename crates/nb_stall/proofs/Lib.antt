pub mod Layouts
pub mod Unsealing
pub mod Noting
pub mod Serials
pub mod Lengths
pub mod Heads
