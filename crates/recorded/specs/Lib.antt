pub mod Tokens
pub mod Told
pub mod Entries
