pub mod GatherLemmas
pub mod TalkLemmas
pub mod TalkerLemmas
pub mod TurnLemmas
pub mod EndLemmas
