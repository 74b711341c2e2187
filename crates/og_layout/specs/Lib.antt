pub mod Layout
pub mod Examples
pub mod Named
