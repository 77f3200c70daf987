pub mod Step
pub mod Walk
pub mod Back
pub mod Plan
pub mod Found
pub mod Way
pub mod Answers
