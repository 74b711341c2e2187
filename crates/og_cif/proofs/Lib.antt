pub mod Computing
pub mod Fronts
pub mod Items
pub mod Whole
pub mod Attaching
pub mod OneList
