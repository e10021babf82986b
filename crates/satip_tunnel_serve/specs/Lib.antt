pub mod Deeds
pub mod Done
pub mod TunnelRuns
pub mod Outlets
pub mod Ran
pub mod Services
pub mod Wires
pub mod Splits
pub mod RunReplies
pub mod Sent
pub mod Runs
pub mod Ends
pub use Rattle.satip_serve.specs as Serve
