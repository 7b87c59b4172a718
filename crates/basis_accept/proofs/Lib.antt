pub mod Shapes
pub mod Accepting
