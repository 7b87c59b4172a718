pub mod At
pub mod Complete
pub mod Units
pub mod Powers
pub mod Fundamental
pub mod Agree
