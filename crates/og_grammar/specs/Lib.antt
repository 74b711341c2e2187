pub mod Sentence
pub mod Predictive
pub mod Rows
pub mod Steps
pub mod Reading
pub mod Answers
pub mod Standing
