pub mod Stamp
pub mod Post
