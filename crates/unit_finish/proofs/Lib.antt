pub mod Rows
pub mod Stored
pub mod Cofactor
pub mod Ending
pub mod Finishing
