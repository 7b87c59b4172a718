pub mod Parts
pub mod Writings
pub mod Answers
pub mod Samples
