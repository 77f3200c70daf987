pub mod Listing
pub mod Theorems
pub mod Cases
