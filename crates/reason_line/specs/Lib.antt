pub mod Line
pub mod Back
