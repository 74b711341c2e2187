pub mod Vectors
pub mod Layouts
pub mod Views
