pub mod Lists
pub mod Quotients
