pub mod Lists
pub mod AddUp
pub mod Figures
