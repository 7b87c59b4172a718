pub mod Shearing
