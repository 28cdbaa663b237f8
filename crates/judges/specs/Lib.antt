pub mod Heads
pub mod Cursor
