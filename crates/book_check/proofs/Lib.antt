pub mod Facts
pub mod One
pub mod Value
pub mod Written
pub mod Asking
