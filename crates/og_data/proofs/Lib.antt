pub mod Orders
pub mod Places
pub mod Supported
pub mod Declared
pub mod InOrder
pub mod Views
