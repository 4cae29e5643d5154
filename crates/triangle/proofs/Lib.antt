pub mod Bits
pub mod Places
pub mod Within
pub mod Written
pub mod Meaning
pub mod Figures
