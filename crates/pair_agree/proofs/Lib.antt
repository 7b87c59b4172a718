pub mod Polynomials
pub mod Relation
pub mod Outcomes
pub mod Once
