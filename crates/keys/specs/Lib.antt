pub mod Keys
pub mod Meaning
