pub mod Smallest
pub mod SameField
pub mod Conventions
pub mod Sheets
