pub mod Sync
pub mod Packets
pub mod Places
pub mod Runs
pub mod HexDigits
pub mod PacketDigits
