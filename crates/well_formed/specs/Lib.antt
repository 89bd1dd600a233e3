pub mod WellFormed
pub mod Pass
pub mod Chains
