pub mod Ring
pub mod Field
pub mod Trial
pub mod Fermat
pub mod Cube
pub mod Value
