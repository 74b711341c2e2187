pub mod Outlines
pub mod Whole
pub mod Examples
