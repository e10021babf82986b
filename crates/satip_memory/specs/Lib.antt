pub mod Shelves
pub mod Kept
pub mod Reels
pub mod Lobby
pub mod Mails
