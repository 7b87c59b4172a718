pub mod Kept
pub mod Numbers
pub mod FromC
pub mod Demand1
pub mod Bytes
pub mod UnitBody
pub mod BookCalls
pub mod Padded
