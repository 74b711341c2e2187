pub mod Cells
pub mod Reading
pub mod Arithmetic
pub mod Steps
pub mod FlatSteps
pub mod WholeSlots
