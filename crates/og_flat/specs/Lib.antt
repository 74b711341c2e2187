pub mod Limits
pub mod Flattening
