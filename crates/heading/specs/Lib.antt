pub mod Outcomes
pub mod Heading
