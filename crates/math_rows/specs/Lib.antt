pub mod Reading
pub mod Made
pub mod Row
pub mod Sum
pub mod Derivation
pub mod Roots
