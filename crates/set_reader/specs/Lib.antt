pub mod Attempts
pub mod Calls
pub mod Carriers
pub mod Record
pub mod Rows
