pub mod Frame
pub mod Leaves
