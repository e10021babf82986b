pub mod Writing
pub mod CutLemmas
pub mod HeldLemmas
pub mod PackingLemmas
pub mod PickedLemmas
