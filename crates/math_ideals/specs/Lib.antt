pub mod Setting
pub mod Element
pub mod Ideal
pub mod Basis
pub mod Next
pub mod Tests
