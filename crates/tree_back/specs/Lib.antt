pub mod Back
pub mod Tracing
