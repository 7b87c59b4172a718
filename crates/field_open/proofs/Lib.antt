pub mod Stages
pub mod Accept
pub mod Door
pub mod Parts
pub mod Rows
pub mod Factors
pub mod Opening
pub mod Paddings
