pub mod Euclid
