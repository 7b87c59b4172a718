pub mod Cases
pub mod Tabled
pub mod TakenUp
pub mod Demand2
pub mod Demand3
