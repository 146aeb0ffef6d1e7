pub mod BadCalls
pub mod BadDisk
pub mod Calls
pub mod Disk
pub mod HostDisk
pub mod MemoryDisk
