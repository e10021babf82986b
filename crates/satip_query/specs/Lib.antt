pub mod Values
pub mod Queries
pub mod Reading
pub mod Bodies
pub mod Statuses
pub mod Printing
pub use Rattle.satip_pids.specs.Packed
