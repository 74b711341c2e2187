pub mod Kinds
pub mod Reading
pub mod Trees
pub mod Grammar
