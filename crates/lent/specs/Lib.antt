pub mod Grid
pub mod Range
pub mod Count
pub mod Lent
pub mod Inner
