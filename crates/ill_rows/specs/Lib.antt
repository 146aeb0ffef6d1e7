pub mod Cells
pub mod Finding
pub mod Heading
pub mod Messages
