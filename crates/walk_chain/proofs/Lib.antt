pub mod Walk
pub mod Told
pub mod TakenUp
pub mod Going
pub mod Even
pub mod Room
