pub mod Leaves
pub mod Laid
