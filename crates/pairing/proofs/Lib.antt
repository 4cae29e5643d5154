pub mod Near
pub mod Far
pub mod Offers
