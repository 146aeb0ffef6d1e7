pub mod AtFile
pub mod Letters
pub mod Note
pub mod Streams
