pub mod Fronts
pub mod Along
pub mod Sentences
pub mod Standbys
