pub mod Commands
pub mod Ended
pub mod Runs
pub mod Recording
pub mod Journaling
