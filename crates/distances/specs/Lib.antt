pub mod Distances
pub mod Inner
