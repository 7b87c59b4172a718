pub mod Sums
pub mod Step
pub mod Turns
