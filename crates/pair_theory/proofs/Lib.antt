pub mod OneField
pub mod Units
pub mod Refused
pub mod Corresponds
pub mod Least
pub mod Shared
