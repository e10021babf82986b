pub mod Talk
pub mod Talking
pub mod Gathering
pub mod Hearing
pub mod Runs
pub mod Ends
