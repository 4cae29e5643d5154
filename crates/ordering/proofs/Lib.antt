pub mod Laws
pub mod Rank
pub mod Sorted
pub mod Merging
pub mod Nearest
pub mod Parts
pub mod Figures
