pub mod Storing
pub mod Tables
pub mod Amounts
pub mod Entering
pub mod Outcomes
pub mod Laws
pub mod Tellings
