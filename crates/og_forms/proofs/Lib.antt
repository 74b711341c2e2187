pub mod Built
pub mod FirstSoFar
pub mod Opens
pub mod Standing
pub mod Worked
