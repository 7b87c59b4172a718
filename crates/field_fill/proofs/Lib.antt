pub mod Top
pub mod Leads
pub mod Growing
