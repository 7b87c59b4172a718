pub mod Based
