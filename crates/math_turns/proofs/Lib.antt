pub mod Turn
pub mod Euclid
