pub mod Book
pub mod Value
pub mod Answer
pub mod Code
