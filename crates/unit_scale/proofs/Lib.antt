pub mod AtZero
pub mod Numbers
pub mod Scales
pub mod Turning
pub mod Turned
pub mod Invertible
