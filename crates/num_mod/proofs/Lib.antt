pub mod Quick
pub mod Prepared
