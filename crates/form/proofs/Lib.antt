pub mod Verdicts
pub mod Agreement
pub mod Writing
pub mod Cases
