pub mod Journals
pub mod Laws
pub mod JournalRows
pub mod SinkGears
pub mod Memories
pub mod Sent
pub mod Journaled
pub mod Judged
pub mod SinkRows
pub mod Statuses
pub mod Asked
pub mod Ran
pub mod Ends
pub use Rattle.satip_audit.specs as Audit
