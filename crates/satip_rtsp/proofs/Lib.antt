pub mod Causes
pub mod CseqLemmas
pub mod Measures
pub mod ReplyLemmas
pub mod ShortLemmas
pub mod HeardLemmas
