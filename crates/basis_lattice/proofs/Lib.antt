pub mod Elements
pub mod Quotients
pub mod Members
pub mod Lent
