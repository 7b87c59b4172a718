pub mod OneField
pub mod Rows
