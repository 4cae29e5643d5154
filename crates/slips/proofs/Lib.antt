pub mod Amounts
pub mod Lines
pub mod Meaning
pub mod Tellings
pub mod Figures
