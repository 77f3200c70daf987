pub mod Digits
pub mod Integers
pub mod Writing
pub mod Theorems
pub mod Cases
