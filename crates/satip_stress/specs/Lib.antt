pub mod Counted
pub mod Counting
pub mod Ends
pub mod Making
pub mod Running
pub mod CommandEnds
