pub mod Laws
pub mod Walk
pub mod ZoneReader
