pub mod Pattern
pub mod Shifts
pub mod Compare
pub mod Ranks
pub mod Order
pub mod Meaning
pub mod Weights
