pub mod Unit
pub mod Fit
pub mod Scaled
