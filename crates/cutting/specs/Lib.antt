pub mod Cutting
pub mod Calls
pub mod Inner
