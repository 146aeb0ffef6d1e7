pub mod MessageFileCalls
pub mod Touches
pub mod Spots
pub mod Keeping
pub mod Runs
pub mod TakenPaths
pub mod BadMessageFiles
pub mod Whole
