pub mod Job
pub mod Inner
