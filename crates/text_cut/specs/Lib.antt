pub mod Pieces
pub mod Lines
pub mod Tells
pub mod Feed
