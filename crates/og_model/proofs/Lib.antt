pub mod Computing
pub mod RegionLayers
pub mod MoreUnits
pub mod MoreOfModel
pub mod RunLaws
pub mod Depth
pub mod Labels
pub mod Pasts
