pub mod Attested
pub mod Code
