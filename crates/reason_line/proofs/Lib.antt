pub mod Writing
pub mod Theorems
pub mod Cases
