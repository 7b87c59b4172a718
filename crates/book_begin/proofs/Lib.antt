pub mod Once
pub mod Begun
