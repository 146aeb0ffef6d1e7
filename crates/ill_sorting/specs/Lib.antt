pub mod Opened
pub mod Sorting
