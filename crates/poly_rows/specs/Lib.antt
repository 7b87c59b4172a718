pub mod Leaf
pub mod Coefficients
pub mod Division
pub mod Polynomial
