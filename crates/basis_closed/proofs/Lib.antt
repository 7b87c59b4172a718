pub mod Products
pub mod Closing
