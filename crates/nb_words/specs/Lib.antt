pub mod Words
pub mod Laws
pub mod Numbers
pub mod Table
