pub mod Sums
pub mod Mixing
