pub mod Lines
pub mod Scans
pub mod Forms
pub mod Stimuli
pub mod Trace
pub mod Laws
