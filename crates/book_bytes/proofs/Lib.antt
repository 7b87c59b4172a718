pub mod Read
pub mod Lists
pub mod Write
