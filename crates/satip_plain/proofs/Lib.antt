mod LawProofs
mod TuningLaw
pub mod SameIds
pub mod Growing
pub mod Bursting
pub mod Suiting
