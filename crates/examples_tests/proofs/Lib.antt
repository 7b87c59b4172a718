pub mod Fields
pub mod Floors
pub mod Bases
pub mod Steps
pub mod Chains
