pub mod Sets
pub mod Lines
pub mod Put
