pub mod Views
pub mod Fresh
pub mod Handed
pub mod Given
pub mod Desks
pub mod Streams
pub mod Journals
