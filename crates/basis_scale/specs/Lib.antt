pub mod Gives
pub mod First
