pub mod Reduction
pub mod Made
pub mod Once
