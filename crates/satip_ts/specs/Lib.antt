pub mod Packet
pub mod Recording
pub mod Calls
pub mod Digits
