pub mod Grammar
pub mod Tells
pub mod Inner
