pub mod RoomLemmas
pub mod MemoryRoom
pub mod SealedLemmas
pub mod TextLemmas
pub mod LettersLemmas
