pub mod Deadlines
pub mod Heaps
pub mod Placed
