pub mod Views
pub mod Faithful
pub mod Rule
pub mod Steps
pub mod Seats
pub mod Shown
pub mod Tried
pub mod Fed
