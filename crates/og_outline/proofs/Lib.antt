pub mod Opens
pub mod Pieces
pub mod BuiltForms
pub mod Closed
pub mod Around
pub mod Worked
