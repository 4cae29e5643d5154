pub mod Outcomes
pub mod Ledger
pub mod Inner
pub mod Meaning
