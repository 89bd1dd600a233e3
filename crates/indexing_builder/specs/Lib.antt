pub mod Answer
pub mod Building
pub mod Expansion
