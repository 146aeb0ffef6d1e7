pub mod Parts
pub mod Forms
pub mod Desks
pub mod Page
pub mod Reply
pub mod Urls
