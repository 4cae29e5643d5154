pub mod Reading
pub mod Rounding
pub mod Meaning
pub mod Forms
pub mod Tellings
pub mod Figures
