pub mod Copy
pub mod CopyOver
pub mod Lines
pub mod MessageFiles
pub mod Outbox
pub mod Person
pub mod Retire
