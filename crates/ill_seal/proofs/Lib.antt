pub mod Differences
pub mod Blocks
pub mod Letters
pub mod KeyTexts
