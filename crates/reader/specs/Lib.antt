pub mod Answers
pub mod Earlier
