pub mod Every
pub mod Pieces
pub mod Last
pub mod Digits
pub mod Tellings
