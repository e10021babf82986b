pub mod Landing
pub mod Stepping
