pub mod Store
pub mod Memory
pub mod Order
pub mod Sink
pub mod Failing
