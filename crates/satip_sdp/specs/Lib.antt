pub mod Sdp
pub use Rattle.satip_rtcp.specs as Rtcp
