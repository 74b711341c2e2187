pub mod Same
pub mod Stacks
pub mod Numerals
pub mod Cuts
pub mod Placing
pub mod Deep
pub mod Refused
pub mod Scanning
