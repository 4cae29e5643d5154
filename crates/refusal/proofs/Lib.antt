pub mod Tables
pub mod Numbers
