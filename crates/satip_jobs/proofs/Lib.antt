pub mod Seating
pub mod Beside
pub mod WholeRuns
pub mod Following
pub mod Ended
pub mod Halves
