pub mod RoomsLemmas
pub mod BadRooms
pub mod KeyedLemmas
pub mod PlaceLaws
