pub mod Coordinates
pub mod Negated
pub mod Products
pub mod Turned
pub mod Once
