pub mod Reading
pub mod BatchStreams
pub mod Replays
pub mod Ends
pub mod Runs
pub mod BatchCommands
pub mod CommandEnds
