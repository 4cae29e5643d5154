pub mod Hrp
pub mod Inner
