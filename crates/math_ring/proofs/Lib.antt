pub mod Laws
pub mod Solve
pub mod Hom
pub mod Power
