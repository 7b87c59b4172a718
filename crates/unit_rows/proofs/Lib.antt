pub mod Rows
pub mod Multiply
pub mod InPlace
