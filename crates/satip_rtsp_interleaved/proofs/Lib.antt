pub mod FrameLemmas
pub mod PartLemmas
pub mod CallLemmas
pub mod ParterLemmas
pub mod TurnedLemmas
