pub mod Pair
pub mod First
pub mod Begin
pub mod Near
pub mod Root
pub mod Only
pub mod Prefix
