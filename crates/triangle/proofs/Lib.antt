pub mod Count
pub mod Binomial
pub mod Rule
pub mod Parts
pub mod Theorems
pub mod Cases
