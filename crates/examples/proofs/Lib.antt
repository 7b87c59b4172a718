pub mod Firsts
pub mod Records
pub mod Units
pub mod Sound
pub mod Table
