mod AsnEnds
mod AsnFronts
pub mod Cutting
mod EachText
pub mod Ends
mod Founds
pub mod Fronts
mod Languages
pub mod Placing
pub mod Reading
pub mod Reserved
pub mod Scans
