pub mod Bytes
pub mod Layout
pub mod Parts
pub mod Record
