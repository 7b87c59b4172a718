pub mod Residue
pub mod Prepared
