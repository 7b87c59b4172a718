pub mod Cuts
pub mod Keeps
pub mod Steps
pub mod Feeds
pub mod Serves
pub mod Samples
