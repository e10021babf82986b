pub mod Listed
pub mod Printing
pub mod Wholes
pub mod Lists
pub mod Numbered
pub mod Texts
pub mod Inverses
pub mod TextRanges
pub mod LimitLemmas
pub mod KeyFaults
pub mod LineLemmas
pub mod OutcomeLemmas
mod ConfigLemmas
mod ReadLemmas
