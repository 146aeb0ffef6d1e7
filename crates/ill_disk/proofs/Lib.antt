pub mod BadDisk
pub mod Crashes
pub mod Memory
pub mod Moments
pub mod Names
pub mod Saves
pub mod Wholes
