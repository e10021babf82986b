pub mod StopRows
pub mod RunRows
pub mod PumpRows
pub mod RecordedRows
pub mod Counting
