pub mod Answers
pub mod Answering
pub mod Statuses
pub mod Compiled
pub mod Programs
pub mod Loading
