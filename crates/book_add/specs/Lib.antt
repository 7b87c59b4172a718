pub mod Add
