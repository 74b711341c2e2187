pub mod Values
pub mod Table
pub mod Measures
pub mod Laws
pub mod Examples
