pub mod Blanks
pub mod Packed
pub mod Targets
pub mod Sessions
pub mod Transports
pub mod Asked
pub mod Replies
pub mod HeardExamples
pub mod Methods
pub use Rattle.satip_frame.specs as Frame
