pub mod Ceilings
pub mod Meaning
pub mod Figures
pub mod Written
pub mod Inner
