pub mod Code
pub mod Slots
pub mod FlatCode
pub mod Units
pub mod Examples
