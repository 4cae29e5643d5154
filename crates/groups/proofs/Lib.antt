pub mod Nodes
pub mod Lines
pub mod Sheet
pub mod Judged
pub mod Names
pub mod Figures
