pub mod Rows
pub mod Tests
pub mod Walks
