pub mod Pieces
pub mod One
pub mod Fronts
