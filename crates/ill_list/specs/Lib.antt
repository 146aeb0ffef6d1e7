pub mod List
pub mod ListObjects
pub mod ListedNews
pub mod Listing
pub mod Morning
pub mod Seeking
