pub mod Asked
pub mod Once
