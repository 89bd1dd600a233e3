pub mod LinesLaws
pub mod StartLaws
