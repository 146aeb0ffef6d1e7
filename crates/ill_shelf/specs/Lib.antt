pub mod BadHomes
pub mod Home
pub mod Retiring
pub mod Shelf
