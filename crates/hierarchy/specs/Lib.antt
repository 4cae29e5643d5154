pub mod Hierarchy
pub mod Inner
