pub mod Outcomes
pub mod Clusters
pub mod Shares
pub mod Inner
