pub mod Fractions
pub mod Inner
