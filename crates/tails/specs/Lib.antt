pub mod Tail
pub mod Measures
pub mod Inner
