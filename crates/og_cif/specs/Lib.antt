pub mod Form
pub mod File
pub mod Scans
pub mod Examples
