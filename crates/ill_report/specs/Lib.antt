pub mod Link
pub mod Report
