pub mod Letter
pub mod KeyCommand
