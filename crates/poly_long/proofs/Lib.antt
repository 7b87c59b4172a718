pub mod Loops
pub mod Low
