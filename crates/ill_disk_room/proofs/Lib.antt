pub mod RoomOnDisk
pub mod Keeping
