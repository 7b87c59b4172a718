pub mod Coprime
