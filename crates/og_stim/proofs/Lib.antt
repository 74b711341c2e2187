pub mod Splitting
pub mod Stepping
pub mod Ending
pub mod Texts
pub mod Formed
