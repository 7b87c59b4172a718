pub mod Walk
pub mod Told
pub mod Going
pub mod InField
