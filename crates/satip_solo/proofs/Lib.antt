pub mod CopyLemmas
pub mod LogLemmas
