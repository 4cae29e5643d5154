pub mod Outcomes
pub mod Hcaa
pub mod Inner
