pub mod Levels
pub mod Place
pub mod Scales
