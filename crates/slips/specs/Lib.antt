pub mod Slips
pub mod Inner
