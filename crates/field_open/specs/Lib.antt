pub mod Refusal
pub mod Padding
pub mod Door
pub mod Parts
pub mod Opening
