pub mod Ends
pub mod Hands
pub mod Lists
pub mod Queues
pub mod Rule
pub mod Passes
