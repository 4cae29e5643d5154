pub mod Outcomes
pub mod Split
pub mod Numerals
pub mod Inner
