pub mod Cabinets
pub mod Drawers
pub mod Moments
