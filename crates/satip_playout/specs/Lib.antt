pub mod StoreCounts
pub mod References
