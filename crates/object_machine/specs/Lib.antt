pub mod Coding
pub mod State
pub mod History
pub mod Laws
