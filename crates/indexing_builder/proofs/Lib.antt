pub mod ExpansionLaws
pub mod BuilderLaws
pub mod CapacityLaws
