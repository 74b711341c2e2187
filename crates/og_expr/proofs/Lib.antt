pub mod Layers
pub mod Worked
pub mod Bounded
pub mod Going
