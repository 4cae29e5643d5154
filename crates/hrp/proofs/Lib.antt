pub mod Estimates
pub mod Judged
pub mod Figures
