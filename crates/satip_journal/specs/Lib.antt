pub mod Places
pub mod Logs
pub mod Owning
pub mod Keeping
pub mod Gears
pub mod Continuing
pub mod Rows
