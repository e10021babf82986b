pub mod Ends
pub mod Passes
pub mod Crews
pub mod Works
pub mod Crewed
pub mod Runs
pub mod Pairs
pub mod Working
