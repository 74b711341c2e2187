pub mod Examples
pub mod Line
pub mod Report
