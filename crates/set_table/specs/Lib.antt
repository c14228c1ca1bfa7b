pub mod Zones
pub mod Rows
pub mod Table
pub mod Points
