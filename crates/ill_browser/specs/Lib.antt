pub mod Fields
pub mod Visit
pub mod Wanted
pub mod OwnForm
pub mod BadAsking
