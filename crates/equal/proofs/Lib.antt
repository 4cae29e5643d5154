-- The theorems stand in Sharing: equal_shared of what is shared out, equal_call of every accepted call. The rest is what they use.
pub mod Cut
pub mod Number
pub mod Given
pub mod Equal
pub mod Sharing
mod Figures
