pub mod Intervals
pub mod Ranges
pub mod Laws
pub mod Examples
pub mod RangeExamples
pub mod Calls
