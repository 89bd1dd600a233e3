pub mod Inner
pub mod First
