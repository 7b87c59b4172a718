pub mod Chain
pub mod Convention
pub mod Unit
pub mod Parts
