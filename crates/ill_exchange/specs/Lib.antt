pub mod Nights
pub mod Keyed
pub mod Rooms
pub mod BadRooms
pub mod HostBackup
