pub mod Kept
pub mod Examples
pub mod Fitting
