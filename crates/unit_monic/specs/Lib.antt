pub mod Monic
