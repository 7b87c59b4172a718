pub mod Pair
pub mod First
pub mod SeriesOf
pub mod Prefix
