mod Unheard
mod Finishing
mod Seating
mod Ended
mod WholeRuns
mod Starting
mod RunReplying
pub mod Wiring
pub mod Framing
pub mod Parting
mod RunOwning
mod Recorded
mod Parsing
mod AskedOn
mod Channelling
mod EndLemmas
pub use Rattle.satip_serve.proofs as Serve
