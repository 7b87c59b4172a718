pub mod AtZero
pub mod Scale
