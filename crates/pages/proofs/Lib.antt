pub mod Lines
pub mod Ends
pub mod Whole
pub mod Figures
