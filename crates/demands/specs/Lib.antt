pub mod Tabled
pub mod TakenUp
pub mod Meaning
pub mod Chain
