pub mod Product
pub mod Field
pub mod Polynomial
pub mod Power
