pub mod Views
pub mod Moves
pub mod Words
pub mod Nests
pub mod Places
pub mod Told
