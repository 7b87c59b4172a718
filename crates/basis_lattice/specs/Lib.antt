pub mod Coordinates
pub mod Lattice
pub mod Lent
