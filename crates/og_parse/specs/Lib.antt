pub mod Reading
pub mod Grammar
pub mod Alike
pub mod Examples
pub mod PlaceExamples
