pub mod Streams
pub mod Fed
pub mod Steps
pub mod Begun
