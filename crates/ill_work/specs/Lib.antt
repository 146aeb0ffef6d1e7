pub mod BadWork
pub mod Dates
pub mod Order
pub mod Table
pub mod Work
