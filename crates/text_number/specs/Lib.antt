pub mod Grammar
pub mod Tells
