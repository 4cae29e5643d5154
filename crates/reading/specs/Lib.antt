pub mod Outcomes
pub mod Reading
pub mod Inner
