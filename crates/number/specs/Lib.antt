pub mod Number
pub mod Groups
pub mod Ranking
pub mod Answers
