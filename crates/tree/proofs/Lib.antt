pub mod Rows
pub mod Counted
pub mod Tree
pub mod Walk
pub mod Order
pub mod Answer
mod Figures
