pub mod Rescale
pub mod Test
