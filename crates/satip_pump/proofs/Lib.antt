pub mod TickLemmas
pub mod BatchLemmas
pub mod BufferLemmas
pub mod LoadLemmas
pub mod ReadingLemmas
pub mod WorkLemmas
pub mod RunLemmas
mod PauseLemmas
