pub mod Field
pub mod Compare
