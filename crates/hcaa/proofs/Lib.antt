pub mod Equal
pub mod Stages
pub mod Judged
