pub mod Branch
pub mod Summary
pub mod Inner
