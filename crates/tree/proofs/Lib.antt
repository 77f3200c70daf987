pub mod Word
pub mod Forest
pub mod Planted
pub mod Sizes
pub mod Theorems
pub mod Cases
