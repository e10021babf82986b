pub mod Ses1
pub mod Reports
pub mod Kept
