pub mod Lowering
pub mod Calls
pub mod Giving
pub mod Examples
pub mod Bounds
