pub mod Lines
pub mod Sheets
pub mod Tellings
pub mod Figures
