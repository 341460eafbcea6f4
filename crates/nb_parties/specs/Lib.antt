pub mod Rules
pub mod Ends
pub mod Goods
pub mod Held
pub mod Worked
pub mod Judged
