pub mod Folding
pub mod Table
pub mod Laws
