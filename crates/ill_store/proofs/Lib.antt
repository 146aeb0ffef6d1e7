pub mod Files
pub mod DiskSaves
pub mod Moments
