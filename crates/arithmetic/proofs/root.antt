pub mod Laws
pub mod Floor
pub mod At
pub mod Cases
pub mod Pattern
pub mod Grid
