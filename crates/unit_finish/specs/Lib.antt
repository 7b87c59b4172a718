pub mod Rows
pub mod Finish
