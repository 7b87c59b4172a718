pub mod Keeps
pub mod Ground
pub mod Known
pub mod First
