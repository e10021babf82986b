pub mod Cut
pub mod Bytes
pub mod Held
pub mod Sending
pub mod Packing
pub mod Picked
