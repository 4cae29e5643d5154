pub mod Walk
pub mod Parts
pub mod Descent
pub mod Passes
pub mod Answer
pub mod Sheet
mod Figures
