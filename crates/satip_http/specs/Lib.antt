pub mod Gets
pub mod Heads
