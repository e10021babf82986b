pub mod ReadingLists
pub mod ReadingRequests
pub mod ReadingEvents
pub mod ReadingEntries
pub mod Taking
pub mod Rows
pub mod Reading
pub mod ReadingAnswers
