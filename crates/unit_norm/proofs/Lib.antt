pub mod Norms
pub mod Constant
