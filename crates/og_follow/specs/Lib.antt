pub mod Passing
pub mod Cuts
pub mod Tracks
pub mod Answers
pub mod Carrying
pub mod Trials
