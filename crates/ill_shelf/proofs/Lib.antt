pub mod AwayLemmas
pub mod HomeLemmas
pub mod RetiringLemmas
pub mod ShelfLemmas
