pub mod Outcomes
pub mod Names
pub mod Split
pub mod Inner
