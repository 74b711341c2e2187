pub mod Kinds
pub mod Reading
pub mod Fronts
pub mod Sentences
