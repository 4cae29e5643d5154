pub mod Pairing
pub mod Inner
