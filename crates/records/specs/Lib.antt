pub mod Bytes
pub mod Moves
pub mod Pointer
pub mod Records
