pub mod DeskLemmas
pub mod EntryLemmas
pub mod PlaceLemmas
pub mod TurnLemmas
