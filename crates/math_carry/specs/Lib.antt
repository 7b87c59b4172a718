pub mod Corresponds
pub mod Carries
