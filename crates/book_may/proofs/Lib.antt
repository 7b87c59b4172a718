pub mod May
