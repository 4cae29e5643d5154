pub mod Calls
pub mod Known
