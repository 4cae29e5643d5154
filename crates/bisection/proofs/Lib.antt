pub mod Halves
pub mod Laws
mod Figures
