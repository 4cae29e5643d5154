pub mod Outcomes
pub mod Listing
pub mod Inner
