pub mod Cancel
pub mod Clearing
