pub mod Val
pub mod Degree
pub mod Polynomial
pub mod Factor
pub mod Gcd
