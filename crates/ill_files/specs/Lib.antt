pub mod Folders
pub mod Opening
pub mod Paths
pub mod ShelfNames
