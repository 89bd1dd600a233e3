pub mod Examples
pub mod PartLaws
pub mod PlanLaws
pub mod RunLaws
