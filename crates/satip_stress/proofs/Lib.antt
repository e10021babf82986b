mod CountLemmas
mod RunLemmas
pub mod EndLemmas
