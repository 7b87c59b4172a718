pub mod Degree
pub mod Compare
pub mod Polynomial
pub mod Gcds
pub mod Divide
pub mod Factor
pub mod Coprime
