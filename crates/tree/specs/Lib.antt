pub mod Rows
pub mod Tree
pub mod Order
pub mod Inner
