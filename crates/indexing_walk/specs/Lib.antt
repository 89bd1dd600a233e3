pub mod Walking
pub mod Answers
