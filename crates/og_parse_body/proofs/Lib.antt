pub mod ReadBodies
pub mod WrittenBodies
