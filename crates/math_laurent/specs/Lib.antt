pub mod Series
pub mod Laurent
pub mod Degree
pub mod Polynomial
pub mod Derivative
pub mod Course
