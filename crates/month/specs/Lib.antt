pub mod Outcomes
pub mod Month
pub mod Calls
pub mod Meaning
pub mod Inner
