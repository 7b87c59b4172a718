pub mod Units
pub mod Shared
