pub mod Reading
pub mod Places
pub mod Answers
pub mod Examples
