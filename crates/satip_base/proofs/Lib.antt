pub mod NumberLemmas
pub mod TextLemmas
pub mod DatagramLemmas
pub mod Writing
pub mod Elements
pub mod Prefixes
pub mod Owned
