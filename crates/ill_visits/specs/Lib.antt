pub mod Parts
pub mod Visits
