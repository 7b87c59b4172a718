pub mod Complete
pub mod Smallest
