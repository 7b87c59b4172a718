pub mod Tests
pub mod Stages
pub mod Limits
pub mod Faults
pub mod Said
