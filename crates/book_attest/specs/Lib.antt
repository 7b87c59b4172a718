pub mod Attest
