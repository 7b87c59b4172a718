pub mod New
pub mod Front
pub mod Adding
pub mod One
pub mod Accepted
