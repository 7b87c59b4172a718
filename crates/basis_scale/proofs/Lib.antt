pub mod First
pub mod Start
