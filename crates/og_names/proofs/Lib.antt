pub mod Places
pub mod Tables
pub mod Truths
pub mod Loops
