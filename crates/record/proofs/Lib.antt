pub mod Cases
pub mod Layouts
pub mod Numerals
pub mod Packing
pub mod Writing
