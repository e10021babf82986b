pub mod Signal
pub mod Tunings
pub mod Frontends
pub mod Words
pub mod Pieces
pub mod Frequency
pub mod Configuration
