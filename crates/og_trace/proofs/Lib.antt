pub mod Lines
pub mod Inputs
pub mod Steps
pub mod Rests
pub mod Shows
pub mod TraceExamples
