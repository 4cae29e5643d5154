pub mod Covariance
pub mod Expected
pub mod Inner
