pub mod Emitted
pub mod Marks
pub mod Program
pub mod Standing
pub mod StructExamples
pub mod Structs
