pub mod Exchanging
pub mod Multiplying
