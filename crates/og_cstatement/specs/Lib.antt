pub mod Numbers
pub mod Halts
pub mod Falling
pub mod Meaning
pub mod Resolved
pub mod Positions
pub mod Effects
pub mod Links
