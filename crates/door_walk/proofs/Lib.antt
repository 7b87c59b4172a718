pub mod FromRecord
