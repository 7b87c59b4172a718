pub mod Decides
pub mod Faults
pub mod Said
pub mod Stage
pub mod Limits
