pub mod Schedule
pub mod Check
pub mod Skip
pub mod Meaning
