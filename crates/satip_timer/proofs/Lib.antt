pub mod HeapLaws
pub mod HeapSteps
pub mod NextDue
pub mod PlaceLaws
