pub mod Two
pub mod Place
pub mod Levels
pub mod Scales
