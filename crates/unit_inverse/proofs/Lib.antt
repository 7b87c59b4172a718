pub mod Cofactors
pub mod Inverting
