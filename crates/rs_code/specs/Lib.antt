pub mod Fragments
pub mod Factor
pub mod Coded
pub mod Blob
