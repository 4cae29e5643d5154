pub mod Sole
pub mod Printed
