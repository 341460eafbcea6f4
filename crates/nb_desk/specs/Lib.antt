pub mod Asking
pub mod Answers
pub mod Desks
pub mod Asks
pub mod Laws
