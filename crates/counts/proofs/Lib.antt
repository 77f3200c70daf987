pub mod Sizes
pub mod Theorems
pub mod Cases
