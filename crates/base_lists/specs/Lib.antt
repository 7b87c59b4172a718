pub mod Pieces
pub mod Coefficients
pub mod Padding
pub mod Sums
