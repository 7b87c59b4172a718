pub mod Tabs
pub mod Pieces
pub mod Puts
pub mod Trims
pub mod Coefs
pub mod Paddings
