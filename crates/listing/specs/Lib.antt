pub mod Replay
pub mod Text
