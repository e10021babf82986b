pub mod Calling
pub mod Crossing
