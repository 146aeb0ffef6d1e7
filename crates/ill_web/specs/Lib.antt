pub mod Actions
pub mod Acts
pub mod BadTurns
pub mod Entries
pub mod Pages
pub mod Replies
pub mod Sent
pub mod Troubles
