pub mod Factors
pub mod Free
