pub mod Bay
pub mod Contents
pub mod Counts
pub mod Images
pub mod Laws
pub mod Outside
pub mod Stretch
pub mod OneDevice
