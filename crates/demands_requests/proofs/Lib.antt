pub mod Smallest
pub mod SameField
pub mod Conventions
pub mod Advanced
pub mod Onward
pub mod Sheets
