pub mod Lists
pub mod Relation
pub mod Laws
pub mod Example
