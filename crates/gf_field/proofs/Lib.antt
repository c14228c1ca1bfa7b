pub mod Checked
pub mod Linear
pub mod TableFacts
pub mod Field
pub mod Polynomial
