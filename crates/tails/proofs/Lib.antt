pub mod Laws
pub mod Known
pub mod Outcomes
pub mod Figures
