pub mod Room
pub mod Backup
pub mod BadRoom
pub mod Sealed
pub mod Letters
