pub mod PumpLemmas
