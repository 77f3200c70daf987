pub mod Refusal
pub mod Answer
pub mod Rows
