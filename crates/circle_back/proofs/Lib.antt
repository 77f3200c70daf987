pub mod Undoing
pub mod Theorems
pub mod Cases
