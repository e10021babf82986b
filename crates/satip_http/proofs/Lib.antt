pub mod Causes
pub mod HeadLemmas
