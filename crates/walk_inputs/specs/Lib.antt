pub mod Plan
pub mod Run
pub mod Cut
