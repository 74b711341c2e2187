pub mod Answered
pub mod Entries
pub mod Halted
pub mod Inputs
pub mod Interfaces
pub mod Machines
pub mod WholeRuns
pub mod Slots
