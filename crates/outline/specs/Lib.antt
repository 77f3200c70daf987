pub mod Outline
pub mod Text
pub mod Answers
pub mod Writing
