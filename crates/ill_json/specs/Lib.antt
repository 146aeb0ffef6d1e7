pub mod BadLines
pub mod Lines
pub mod Objects
