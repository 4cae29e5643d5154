pub mod Laws
pub mod Steps
pub mod Judged
mod Figures
