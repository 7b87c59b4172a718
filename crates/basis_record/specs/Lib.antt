pub mod Setting
pub mod Record
pub mod Seven
pub mod Store
