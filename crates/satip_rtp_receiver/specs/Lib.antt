pub mod Packets
pub mod Rtp
pub mod Caught
pub mod Catching
pub mod Held
pub mod Rows
pub mod Runs
pub mod Order
