pub mod Turning
pub mod Passing
pub mod Stepping
pub mod Whole
