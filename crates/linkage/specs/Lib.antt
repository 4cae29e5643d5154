pub mod Outcomes
pub mod Names
pub mod Merge
pub mod Pairs
pub mod Children
pub mod Inner
