pub mod Fields
pub mod Requests
pub mod Records
pub mod Entries
pub mod Lines
pub mod Sheets
pub mod RoomFields
pub mod Rows
