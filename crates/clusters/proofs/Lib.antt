pub mod Laws
pub mod Sharing
pub mod Figures
