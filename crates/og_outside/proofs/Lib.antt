pub mod Taken
pub mod Saying
