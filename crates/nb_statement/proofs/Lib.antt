pub mod Roles
pub mod Moving
pub mod Telling
pub mod Standing
pub mod Knowing
pub mod Going
pub mod Placing
pub mod Ending
