pub mod Testing
pub mod Answering
pub mod Once
pub mod Back
