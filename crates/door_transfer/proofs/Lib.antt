pub mod Answering
pub mod Rows
pub mod Once
pub mod Back
pub mod Inner
