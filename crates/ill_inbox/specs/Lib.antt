pub mod Dates
pub mod DeedDiary
pub mod Inbox
pub mod Lines
pub mod Objects
