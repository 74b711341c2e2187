pub mod ReadStates
pub mod WrittenStates
