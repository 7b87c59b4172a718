pub mod Tests
pub mod Answer
