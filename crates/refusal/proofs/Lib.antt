pub mod Rows
pub mod Left
pub mod Theorems
pub mod Cases
