pub mod Outcomes
pub mod Order
pub mod Inner
pub mod Meaning
pub mod Nearest
