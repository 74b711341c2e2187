pub mod Entries
pub mod Examples
pub mod Leaves
pub mod Listed
pub mod Stims
pub mod Traces
