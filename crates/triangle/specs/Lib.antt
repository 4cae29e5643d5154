pub mod Triangle
pub mod Inner
