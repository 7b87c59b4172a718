pub mod Facts
pub mod Once
