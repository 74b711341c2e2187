pub mod Judging
pub mod Ready
pub mod Answers
