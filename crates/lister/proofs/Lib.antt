pub mod Replies
pub mod Short
pub mod Once
pub mod Paces
