pub mod Constants
pub mod Arithmetic
pub mod Exact
pub mod Root
pub mod Inner
