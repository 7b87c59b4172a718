pub mod Numbers
pub mod FromC
pub mod Fixed
pub mod BookCalls
pub mod Padded
