pub mod Demand3
pub mod Show
pub mod Example
pub mod General
