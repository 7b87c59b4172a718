pub mod Norm
pub mod Code
