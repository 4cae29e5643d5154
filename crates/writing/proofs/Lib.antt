pub mod Writing
pub mod Digits
pub mod Figures
pub mod Meaning
