pub mod Positive
pub mod Lists
pub mod Coordinates
pub mod Product
pub mod Answer
