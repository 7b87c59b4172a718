pub mod Inverse
pub mod Norms
pub mod Pairs
pub mod Meets
pub mod Transport
pub mod Same
pub mod Corresponds
