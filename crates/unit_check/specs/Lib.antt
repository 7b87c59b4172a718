pub mod Check
pub mod Code
