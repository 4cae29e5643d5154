pub mod Arranging
