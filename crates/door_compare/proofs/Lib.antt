pub mod Doors
pub mod Once
pub mod Fronts
