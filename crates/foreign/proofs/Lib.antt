pub mod Stages
pub mod Judges
