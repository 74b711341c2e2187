pub mod Boxed
pub mod Counting
pub mod Joins
pub mod Written
