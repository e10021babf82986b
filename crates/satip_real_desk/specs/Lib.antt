pub mod Unused
pub mod RealViews
