pub mod Written
pub mod Telling
pub mod Holding
pub mod AtRest
