pub mod LaneFrames
pub mod Owners
pub mod Rows
pub mod Channels
pub mod ChannelRows
pub mod Pieces
pub mod Replies
pub mod Answered
