pub mod Undo
pub mod Answers
