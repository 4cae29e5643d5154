pub mod Clusters
pub mod Equal
