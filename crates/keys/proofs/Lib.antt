pub mod Words
pub mod Order
pub mod Bytewise
pub mod Cut
pub mod Again
pub mod Figures
