pub mod Built
pub mod Ends
pub mod Jobs
pub mod Promises
