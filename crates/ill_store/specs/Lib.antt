pub mod Store
pub mod DiskStore
pub mod BadStore
