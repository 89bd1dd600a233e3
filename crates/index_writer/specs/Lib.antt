pub mod Choices
pub mod Chains
pub mod Filling
pub mod Writing
pub mod Written
