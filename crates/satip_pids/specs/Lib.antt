pub mod Bits
pub mod Packed
pub mod Pids
pub mod Rising
pub mod Texts
pub mod Unpacked
