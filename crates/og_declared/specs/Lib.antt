pub mod Spaces
pub mod Sorts
pub mod Violations
pub mod Tables
pub mod Laws
pub mod Examples
