pub mod Parity
pub mod Inner
