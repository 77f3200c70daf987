pub mod Slots
pub mod Tracing
pub mod Theorems
pub mod Cases
