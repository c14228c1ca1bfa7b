pub mod Line
pub mod Lines
pub mod Records
pub mod Catalogue
pub mod Laws
pub mod Pool
