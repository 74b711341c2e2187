pub mod Names
pub mod Held
pub mod Selected
pub mod Widths
pub mod Fields
pub mod Shaping
