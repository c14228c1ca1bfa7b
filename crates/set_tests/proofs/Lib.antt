pub mod KeepLaws
pub mod WrittenLaws
pub mod LowestZones
