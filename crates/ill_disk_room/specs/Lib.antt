pub mod DiskRooms
