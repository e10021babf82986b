pub mod Rows
pub mod Choice
pub mod FrontEnds
pub mod View
pub mod Openings
