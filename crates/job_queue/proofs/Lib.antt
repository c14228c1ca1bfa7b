mod Lists
mod Moves
mod Counts
pub mod Trials
