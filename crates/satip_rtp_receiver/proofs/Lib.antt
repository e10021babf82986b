pub mod MissingLemmas
pub mod DrainLemmas
pub mod SlotLemmas
pub mod IndexLemmas
pub mod TakeLemmas
pub mod RunLemmas
pub mod AllLemmas
pub mod OrderLemmas
