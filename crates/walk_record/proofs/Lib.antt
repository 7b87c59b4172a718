pub mod States
pub mod Bounds
