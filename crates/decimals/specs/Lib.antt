pub mod Decimal
pub mod Nearest
pub mod Inner
