pub mod Single
pub mod Calling
