pub mod Downward
pub mod Tables
pub mod Added
pub mod Measured
pub mod FirstIn
pub mod Firsts
pub mod Computing
