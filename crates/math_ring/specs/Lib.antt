pub mod Ring
pub mod Field
pub mod Subring
pub mod Power
