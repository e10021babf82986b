pub mod BatchLemmas
pub mod EndLemmas
mod RunLemmas
