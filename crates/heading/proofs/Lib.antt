pub mod FirstLine
pub mod Judged
pub mod Tellings
pub mod Figures
