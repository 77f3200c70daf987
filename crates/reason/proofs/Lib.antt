pub mod Differing
pub mod Reasons
pub mod Changing
pub mod Rules
pub mod Theorems
pub mod Cases
