pub mod AcceptsLemmas
pub mod ServingLemmas
mod RunLemmas
mod TalkLemmas
mod StressLemmas
mod BatchLemmas
mod RecordingLemmas
mod ServiceLemmas
mod JournalLemmas
