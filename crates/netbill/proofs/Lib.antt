pub mod Fitting
pub mod Working
