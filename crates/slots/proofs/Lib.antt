pub mod Packed
pub mod Gap
