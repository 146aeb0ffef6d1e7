pub mod HostRoom
pub mod HostMessageFiles
