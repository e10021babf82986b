pub mod WordLemmas
pub mod PartLemmas
pub mod TextLemmas
pub mod LawProofs
pub mod AppendLemmas
pub mod ScriptLemmas
pub mod FirstPlace
