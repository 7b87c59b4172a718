pub mod State
pub mod Record
