pub mod Writing
pub mod Lists
pub mod Bounds
pub mod EachLemmas
pub mod InBytes
