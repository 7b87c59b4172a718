pub mod Facts
pub mod Field
pub mod Body
pub mod One
pub mod Relation
