pub mod Opened
pub mod Told
pub mod Ends
