pub mod Values
pub mod Numbers
pub mod Taken
pub mod Lists
pub mod Inverse
pub mod Joins
pub mod Answers
