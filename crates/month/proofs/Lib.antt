pub mod Totals
pub mod Standing
pub mod Figures
pub mod Steps
pub mod Leaving
pub mod Tellings
