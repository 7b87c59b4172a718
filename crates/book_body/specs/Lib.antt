pub mod Body
pub mod Code
