pub mod LocateLaws
pub mod First
