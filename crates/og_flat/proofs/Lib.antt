pub mod Layers
pub mod Listing
