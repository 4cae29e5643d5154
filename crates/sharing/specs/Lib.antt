pub mod Names
pub mod Split
pub mod Allot
pub mod Down
pub mod Inner
